-- For callers: an index below a count is within what is lent.
pub mod BoundLaws
