pub mod Parts
pub mod Turning
pub mod OutputLaws
pub mod Holding
pub mod Ending
pub mod Answering
pub mod Whole
