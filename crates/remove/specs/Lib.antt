-- what the code says
pub mod Code
