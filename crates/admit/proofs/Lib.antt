-- What the tests come to, and what is known of calls that pass them.
pub mod AdmitLaws
