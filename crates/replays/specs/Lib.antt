-- Document 02, Q-1: what a journal gives, replayed.
pub mod Course
pub mod Replayed
