pub mod Promises
pub mod Exactly
pub mod FullMarks
