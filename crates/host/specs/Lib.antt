-- What the exported functions leave.
pub mod Host
