pub mod Arrays
pub mod Checks
pub mod Every
pub mod Flags
