pub mod Settled
pub mod HeadCalls
