pub mod Laws
pub mod Auto
