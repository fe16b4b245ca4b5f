pub mod Checks
pub mod Hearing
pub mod Deciding
pub mod Carried
pub mod Receiving
pub mod Answered
pub mod ClosingIsLosing
pub mod Demand1
