-- What the proofs use.
pub mod ReplayLaws
pub mod Unique
