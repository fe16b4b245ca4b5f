pub mod CheckLaws
pub mod KeptLaws
pub mod Answering
