pub mod Standing
pub mod Filling
pub mod Calls
