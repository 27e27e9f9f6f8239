pub mod Layout
pub mod Heads
