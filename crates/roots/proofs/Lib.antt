-- What the proofs of several functions use.
pub mod AfterLaws
pub mod NearLaws
pub mod OffLaws
pub mod PathLaws
pub mod RewriteLaws
pub mod TrailLaws
pub mod WalkLaws
