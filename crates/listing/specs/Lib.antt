pub mod Listing
pub mod Progress
