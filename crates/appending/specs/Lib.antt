pub mod Takes
pub mod Outcome
