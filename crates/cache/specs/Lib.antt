-- what the code's arrays stand for
pub mod Code
