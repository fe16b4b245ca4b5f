pub mod Parts
pub mod Words
pub mod Whole
pub mod Same
