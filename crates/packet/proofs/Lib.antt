pub mod NameLaws
pub mod PacketLaws
pub mod FeedLaws
pub mod FrameLaws
pub mod Cut
pub mod Agree
