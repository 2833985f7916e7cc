-- lists of words
pub mod Words
-- what a call at the border leaves
pub mod Ends
-- what is told fits the words
pub mod Small
-- a fetch that changes nothing
pub mod Still
