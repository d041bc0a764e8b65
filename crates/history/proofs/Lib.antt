-- Why demand 3 holds.
pub mod SurvivalLaws
pub mod LinkLaws
pub mod AccountLaws
pub mod Theorem
pub mod Acceptance
