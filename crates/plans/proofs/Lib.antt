-- What the proofs use, and `and_then` for callers.
pub mod PlanLaws
