-- What the proofs use.
pub mod LeftLaws
