-- refusals and runs
pub mod Laws
