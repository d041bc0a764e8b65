-- How a contract names a table while calls are carried out.
pub mod Going
