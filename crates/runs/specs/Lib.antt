pub mod Runs
pub mod Words
pub mod Laws
