-- The numbers of calls and answers, and what they stand for.
pub mod Coding
pub mod Answers
