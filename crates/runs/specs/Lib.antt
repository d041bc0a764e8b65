-- What calls that are carried out leave.
pub mod Run
pub mod Served
