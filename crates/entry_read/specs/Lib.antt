-- What is left of a journal.
pub mod Left
