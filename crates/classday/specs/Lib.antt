pub mod Sheet
pub mod Same
pub mod Whole
