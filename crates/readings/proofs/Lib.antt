pub mod PutLaws
pub mod ConstantLaws
pub mod Readers
pub mod TableLaws
