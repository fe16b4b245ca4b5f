pub mod Fields
pub mod Desk
pub mod Put
pub mod Verdict
pub mod Step
