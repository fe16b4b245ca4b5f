-- The definitions that the contracts cite beyond those of the crates below.
pub mod Words
pub mod Fit
pub mod Calls
pub mod Ends
