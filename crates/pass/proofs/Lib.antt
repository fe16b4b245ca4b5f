pub mod Parts
pub mod Turning
pub mod SheetLaws
pub mod Holding
pub mod Ending
pub mod Reading
pub mod Whole
pub mod Starting
