pub mod Lone
pub mod Behind
pub mod Worked
