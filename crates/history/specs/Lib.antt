pub mod Calls
pub mod Good
pub mod Stored
