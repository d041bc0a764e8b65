-- What the proofs of several functions use.
pub mod JournalLaws
pub mod Unique
