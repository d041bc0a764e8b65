-- What is proved of the definitions.
pub mod Examples
pub mod RowLaws
pub mod EntryLaws
pub mod StateLaws
pub mod ReadLaws
pub mod MergeLaws
pub mod PlanLaws
pub mod TestLaws
