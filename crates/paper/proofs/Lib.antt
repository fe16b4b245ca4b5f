pub mod OutputLaws
pub mod Answering
pub mod Promised
pub mod Examples
