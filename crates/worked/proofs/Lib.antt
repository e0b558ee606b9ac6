pub mod Base
pub mod Easy
pub mod Short
pub mod Failing
pub mod Lone
pub mod Behind
