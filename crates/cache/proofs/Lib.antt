-- lists
pub mod Cut
-- the entries that two arrays are
pub mod Entries
pub mod Pointers
pub mod Seek
pub mod Changes
-- all 32 entries, by the entries in use and those that stay
pub mod Whole
