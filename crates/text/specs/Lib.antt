pub mod Comparisons
pub mod Match
pub mod Steps
