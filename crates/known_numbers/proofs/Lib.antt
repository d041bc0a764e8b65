-- What the proofs use, and callers.
pub mod KnownLaws
pub mod TestLaws
