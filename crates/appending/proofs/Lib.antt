-- What the proofs use.
pub mod TakesLaws
pub mod SegmentLaws
