pub mod Turn
pub mod Narrow
pub mod Run
pub mod Whole
