pub mod State
pub mod Check
pub mod Turns
pub mod Making
pub mod Calls
