pub mod Rows
pub mod Table
pub mod Contest
pub mod Plain
pub mod FourLine
pub mod Answers
pub mod Back
