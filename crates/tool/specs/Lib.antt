-- what the contracts of the tool's pure parts cite
pub mod Numbers
pub mod Hex
pub mod Words
pub mod Bars
pub mod Last
pub mod Back
