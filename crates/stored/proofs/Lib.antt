-- The laws of files that lie in blocks, which the crates above may cite.
pub mod Feeding
pub mod CursorLaws
pub mod Disks
pub mod Setting
pub mod Laws
