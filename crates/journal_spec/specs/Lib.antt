pub mod Records
pub mod Contents
pub mod Lines
pub mod Transcript
