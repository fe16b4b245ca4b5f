pub mod Parts
pub mod Input
pub mod Turns
