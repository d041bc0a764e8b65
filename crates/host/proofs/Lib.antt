-- What the proofs of several functions use.
pub mod HostLaws
pub mod Unique
