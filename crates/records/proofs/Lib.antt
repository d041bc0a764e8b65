-- Why exactly the DONE calls are written.
pub mod OpenLaws
pub mod BookLaws
pub mod Theorem
pub mod Night
pub mod FitLaws
