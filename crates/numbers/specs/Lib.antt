pub mod Numbers
pub mod Hex
