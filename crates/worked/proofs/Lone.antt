pub mod Counting
pub mod Alone
pub mod Plain
pub mod FourFit
pub mod Four
pub mod Arriving
