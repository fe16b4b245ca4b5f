-- The laws of the server's words.
pub mod Writing
pub mod Fitting
pub mod Checked
pub mod Reading
pub mod Refusals
pub mod Progress
pub mod Lengths
pub mod Telling
