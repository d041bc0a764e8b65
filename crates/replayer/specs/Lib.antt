-- What an exported replay leaves.
pub mod Replaying
