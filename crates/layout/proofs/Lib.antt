pub mod AnswerTells
