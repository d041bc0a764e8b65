-- That no two outcomes meet a contract.
pub mod Unique
