-- Document 02, Q-1, as definitions: the journal of accepted calls.
pub mod Numbers
pub mod Entry
pub mod Journal
pub mod Append
pub mod Written
pub mod Replay
pub mod Record
pub mod Kept
pub mod Forward
