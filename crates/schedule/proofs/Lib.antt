pub mod Told
pub mod Stages
pub mod Back
