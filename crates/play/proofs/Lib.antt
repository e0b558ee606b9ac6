pub mod TextIs
pub mod GoesOn
pub mod Noted
