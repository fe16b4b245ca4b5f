pub mod Interface
pub mod Asked
pub mod Effects
pub mod Uploading
pub mod Acts
