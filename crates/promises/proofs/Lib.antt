-- the FullStorage rule, the walk
pub mod Rule
pub mod Walks
-- every call; every sequence
pub mod EachCall
pub mod TwoSizes
pub mod AnyLent
pub mod Sequences
-- the final statements
pub mod Demands
