-- An entry of the journal as a call.
pub mod Ready
