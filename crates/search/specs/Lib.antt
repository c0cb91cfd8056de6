-- Answers is what the code answers.
pub mod Answers
