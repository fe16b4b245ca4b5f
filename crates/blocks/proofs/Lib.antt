-- The laws of the block store that the crates above may cite.
pub mod Bits
pub mod Lowest
pub mod Owners
pub mod Parts
pub mod Held
pub mod Agreement
pub mod Reserving
pub mod Steps
pub mod Runs
pub mod Answers
pub mod Laws
