pub mod Stations
pub mod Counts
pub mod Wires
pub mod Calls
pub mod Telling
pub mod Making
pub mod Promise
pub mod TakeLeave
