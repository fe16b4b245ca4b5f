pub mod PartLaws
pub mod InputLaws
pub mod Finding
pub mod Places
pub mod Turning
