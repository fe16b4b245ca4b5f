pub mod Pass
pub mod Packets
pub mod Computing
