pub mod Names
pub mod Packet
pub mod Machine
pub mod Frame
pub mod Feed
