pub mod Shape
pub mod RowLaws
pub mod Forms
