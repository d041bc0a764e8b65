-- How a contract names what replay comes to.
pub mod Ended
