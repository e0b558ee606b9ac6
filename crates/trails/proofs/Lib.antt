pub mod Around
pub mod Newest
