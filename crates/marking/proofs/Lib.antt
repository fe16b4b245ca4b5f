pub mod FieldLaws
pub mod TabLaws
pub mod PutLaws
pub mod VerdictLaws
pub mod Examples
