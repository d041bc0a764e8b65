pub mod CommandLaws
pub mod Examples
pub mod Accepted
