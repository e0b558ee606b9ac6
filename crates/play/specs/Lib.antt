pub mod OneEvent
pub mod Report
pub mod Account
