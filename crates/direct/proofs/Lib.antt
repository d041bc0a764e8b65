-- What the proofs use, call by call.
pub mod DirectLaws
