-- The laws on the answers as numbers.
pub mod Ranges
