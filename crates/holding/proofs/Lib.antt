pub mod Readings
pub mod Arrivals
pub mod Calls
