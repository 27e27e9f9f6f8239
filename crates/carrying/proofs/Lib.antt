pub mod Tags
pub mod YoungRun
pub mod TextTotal
