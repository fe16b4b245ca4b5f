pub mod Downloads
pub mod Directories
