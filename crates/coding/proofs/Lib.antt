-- What the proofs of several functions use, and CodingLaws for the crate that carries calls out.
pub mod CodingLaws
