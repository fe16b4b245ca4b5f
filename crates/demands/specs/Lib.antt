pub mod Demand3
pub mod Downloads
pub mod Demands
