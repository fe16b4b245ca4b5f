pub mod ReadingLaws
pub mod Laws
pub mod Examples
