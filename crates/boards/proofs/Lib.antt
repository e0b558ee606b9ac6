pub mod Fresh
pub mod Counts
pub mod InTurn
pub mod Last
