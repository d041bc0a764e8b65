pub mod ByteLaws
pub mod ReadLaws
pub mod AppendLaws
pub mod ForwardLaws
pub mod Examples
