-- Document 02, Q-1: what calls that are written leave in the journal.
pub mod Knows
pub mod Records
