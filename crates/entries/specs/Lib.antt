pub mod Entry
pub mod Reading
