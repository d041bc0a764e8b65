pub mod PieceLaws
pub mod CellLaws
