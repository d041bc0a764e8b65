pub mod WindowLaws
pub mod PlaceLaws
