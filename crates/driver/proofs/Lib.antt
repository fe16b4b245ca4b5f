pub mod Given
pub mod Fits
pub mod Answers
pub mod Driving
pub mod Worked
pub mod Sent
