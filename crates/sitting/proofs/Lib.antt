pub mod Parts
pub mod Turning
pub mod Starting
