pub mod Steps
pub mod Relations
pub mod Complete
pub mod RelationSound
pub mod Sound
pub mod Viable
pub mod Bytes
pub mod Examples
