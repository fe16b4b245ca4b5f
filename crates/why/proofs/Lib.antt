-- The laws of why a file is listed, which the crates above may cite.
pub mod Settling
pub mod Older
pub mod Rows
pub mod Stacks
pub mod Passes
pub mod Reasoned
pub mod Answers
pub mod Examples
