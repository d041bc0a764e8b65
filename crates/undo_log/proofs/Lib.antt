-- What the proofs of several functions use, and what callers cite.
pub mod MarkLaws
pub mod HeadLaws
