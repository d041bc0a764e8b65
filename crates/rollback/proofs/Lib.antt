-- What the proofs of several functions use, and what callers cite: RollbackLaws.
pub mod UndoLaws
pub mod RollbackLaws
