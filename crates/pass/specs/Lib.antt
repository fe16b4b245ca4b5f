pub mod Sheets
pub mod Pass
pub mod Narrow
pub mod Run
pub mod Whole
