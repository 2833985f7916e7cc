-- what the C border hands over, in words
pub mod Code
