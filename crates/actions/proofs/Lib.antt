-- What a view shows, and that nothing else meets its contracts.
pub mod ViewLaws
pub mod Unique
