pub mod State
pub mod Opening
pub mod Offering
pub mod Clocking
