-- what an answer shows
pub mod Code
