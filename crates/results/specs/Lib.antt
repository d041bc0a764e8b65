-- What the exported functions of the journal answer.
pub mod Results
