-- What the proofs of several functions use.
pub mod LogLaws
pub mod ReadyLaws
pub mod RewriteWalk
