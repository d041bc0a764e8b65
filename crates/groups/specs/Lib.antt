-- The table without parents and without a log, when a table stands for a history, and what it has room for.
pub mod Sums
pub mod Groups
pub mod Shown
pub mod Track
pub mod Stands
pub mod Acceptance
