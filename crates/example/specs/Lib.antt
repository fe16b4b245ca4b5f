pub mod Computing
pub mod Example
