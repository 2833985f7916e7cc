-- the words
pub mod Promise
-- one pair a key
pub mod Singles
-- a call and its run
pub mod Behind
