-- The definitions of files that lie in blocks.
pub mod Answers
pub mod Cursor
pub mod Settable
pub mod Settled
