pub mod Sorted
pub mod End
pub mod Decided
