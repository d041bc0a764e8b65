-- The host's numbers of a state, and what they stand for.
pub mod State
pub mod Lent
