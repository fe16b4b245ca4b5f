pub mod Words
pub mod Uplink
pub mod Downlink
pub mod Decide
