-- What a recorder knows of a journal, as numbers, and the tests before the journal's exported functions.
pub mod Known
pub mod Tests
