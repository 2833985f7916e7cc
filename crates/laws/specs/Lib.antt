-- 0 lists and bytes
pub mod Lists
pub mod Splice
pub mod ByteLaws
pub mod Programs
pub mod Words
-- 1 geometry
pub mod Geometry
-- 2 items and scans
pub mod Reading
pub mod Encoding
pub mod Scans
pub mod Entries
pub mod Check
-- 3 pages
pub mod Touch
pub mod Tails
pub mod Piece
-- 4 the ring
pub mod Rings
pub mod Moves
-- 5 runs and their flash steps
pub mod Plain
pub mod RunLaws
pub mod Power
pub mod Through
pub mod Plays
