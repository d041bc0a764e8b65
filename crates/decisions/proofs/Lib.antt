-- For callers: what is decided is the rules' step, and can be written.
pub mod FitLaws
pub mod GoodLaws
pub mod DoesLaws
pub mod WalkedLaws
