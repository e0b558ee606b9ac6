pub mod SetLaws
pub mod Bitwise
