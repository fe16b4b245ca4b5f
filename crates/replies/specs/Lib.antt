pub mod Reply
pub mod Words
