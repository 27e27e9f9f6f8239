pub mod HeadersByFacts
pub mod AnswerTells
pub mod HeadPlaces
