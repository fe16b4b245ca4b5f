pub mod Turn
pub mod Upload
pub mod Download
pub mod Carry
