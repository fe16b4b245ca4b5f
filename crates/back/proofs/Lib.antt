pub mod Backwards
pub mod Formulas
pub mod Answers
