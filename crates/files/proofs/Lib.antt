-- The laws of the files of the store that the crates above may cite.
pub mod Calls
pub mod Choice
pub mod Soundness
pub mod Empty
pub mod Beginning
pub mod Received
pub mod Discarded
pub mod Completed
pub mod Selected
pub mod BegunNumbers
