pub mod Circle
pub mod OverAt
pub mod Slots
pub mod Rest
