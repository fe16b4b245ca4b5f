pub mod Holding
pub mod Ending
pub mod Reading
pub mod Whole
