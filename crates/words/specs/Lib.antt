pub mod Bytes
pub mod Numeral
pub mod Line
