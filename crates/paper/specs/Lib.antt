pub mod Answer
pub mod Promised
