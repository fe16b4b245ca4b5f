pub mod State
pub mod Expected
pub mod Reply
