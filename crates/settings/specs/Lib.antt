pub mod State
pub mod Judging
