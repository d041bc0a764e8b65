-- What the proofs use, and callers.
pub mod MineLaws
pub mod StepLaws
pub mod ListLaws
