-- What callers use.
pub mod BarredLaws
