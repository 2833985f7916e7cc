-- laws of this crate
pub mod Ladder
