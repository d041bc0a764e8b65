-- What the proofs of the calls over a state by value use.
pub mod StateCalls
