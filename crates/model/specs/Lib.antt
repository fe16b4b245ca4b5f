pub mod State
pub mod Files
pub mod Uplink
pub mod Downlink
pub mod Step
