pub mod Arriving
pub mod Calling
