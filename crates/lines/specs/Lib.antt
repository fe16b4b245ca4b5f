pub mod Text
pub mod Lines
pub mod Numerals
pub mod Pairs
pub mod Commands
pub mod Reading
