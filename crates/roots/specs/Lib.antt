pub mod Near
pub mod Saves
pub mod Trail
