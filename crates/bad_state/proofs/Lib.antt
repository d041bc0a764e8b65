-- What is bad after a call.
pub mod GoodLaws
