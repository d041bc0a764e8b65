pub mod Bounds
pub mod Numbers
pub mod Ready
