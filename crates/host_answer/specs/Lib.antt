pub mod AnswerBytes
pub mod Numbers
