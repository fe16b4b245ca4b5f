-- What the calls on the files of the store mean, by subject.
pub mod View
pub mod Uploads
pub mod Completion
pub mod Selection
pub mod Sound
