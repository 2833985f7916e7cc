-- no fault means sound, by laws of first pages and of each test
pub mod Firsts
pub mod Checks
pub mod Exact
-- bytes and pages
pub mod Laws
-- the loop over a data area
pub mod Counts
