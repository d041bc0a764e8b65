-- Why a table stands for its history.
pub mod Tools
pub mod SumLaws
pub mod Whole
pub mod Forest
pub mod Walks
pub mod Undoing
pub mod Plans
pub mod Kept
pub mod RowCalls
pub mod TokenCalls
pub mod Calls
pub mod ShownLaws
pub mod Growth
pub mod Acceptance
