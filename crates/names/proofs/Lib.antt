pub mod Tests
pub mod NameLaws
pub mod RowLaws
pub mod SearchLaws
