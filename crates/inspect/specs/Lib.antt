-- the first fault of an image
pub mod Faults
-- the tally of a page
pub mod Tallies
-- a tally counts each byte once
pub mod Sums
-- examples
pub mod Examples
