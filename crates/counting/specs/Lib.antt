-- What is known of a journal.
pub mod Counted
