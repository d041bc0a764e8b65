-- What the proofs use.
pub mod OpenLaws
