pub mod Pass
pub mod Run
pub mod Whole
