pub mod Comes
pub mod TurnLine
pub mod Steps
pub mod Two
pub mod Runs
