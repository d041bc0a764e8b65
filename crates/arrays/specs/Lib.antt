pub mod Cut
pub mod Room
