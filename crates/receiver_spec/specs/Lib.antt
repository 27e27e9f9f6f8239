pub mod State
pub mod Answers
pub mod Kinds
pub mod Opening
pub mod Distance
pub mod Step
pub mod Record
pub mod Marks
