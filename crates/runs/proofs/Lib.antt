-- What the proof uses, and callers.
pub mod RunLaws
