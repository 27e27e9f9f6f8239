pub mod KeptCounts
pub mod Fits
