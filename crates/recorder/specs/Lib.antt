-- What the exported functions leave that write a journal or judge one.
pub mod Journals
