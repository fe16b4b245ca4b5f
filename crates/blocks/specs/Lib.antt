-- The definitions that the contracts of the block store cite, by subject.
pub mod FreeMap
pub mod Owners
pub mod Contents
pub mod Check
pub mod Answers
