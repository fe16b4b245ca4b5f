pub mod Table
pub mod Given
pub mod Order
pub mod Fit
