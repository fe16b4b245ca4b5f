pub mod Passes
pub mod Computed
pub mod Plain
pub mod Demand1
pub mod Demand2
pub mod Machine
pub mod Downloads
pub mod Directories
