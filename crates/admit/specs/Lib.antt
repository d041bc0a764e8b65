-- What is tested before a list of calls is run.
pub mod Admit
