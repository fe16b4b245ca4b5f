pub mod Examples
pub mod Client
pub mod Paging
pub mod Pieces
pub mod Directories
pub mod Worked
