-- What the proof uses.
pub mod OneLaws
