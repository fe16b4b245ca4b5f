pub mod Parts
pub mod Demand1
pub mod Closing
pub mod Cut
pub mod Uncut
pub mod Feeding
pub mod Requests
pub mod Demand2
