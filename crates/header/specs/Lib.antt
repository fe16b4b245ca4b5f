pub mod Items
pub mod Header
pub mod Fields
pub mod Entries
pub mod Scan
