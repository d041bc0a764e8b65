-- What calls that are carried out and written leave.
pub mod Lent
pub mod Mine
