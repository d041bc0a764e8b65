pub mod Window
pub mod Place
