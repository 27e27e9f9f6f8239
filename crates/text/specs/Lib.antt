pub mod Owed
pub mod Answer
