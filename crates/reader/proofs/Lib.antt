pub mod AnswerToReading
pub mod Placed
