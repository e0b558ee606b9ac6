pub mod Picks
pub mod Passes
