pub mod Circle
pub mod Fits
pub mod Spent
