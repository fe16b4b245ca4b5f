pub mod Records
pub mod Finding
pub mod Ordering
pub mod Fitting
pub mod Keeping
pub mod Giving
pub mod Refusing
