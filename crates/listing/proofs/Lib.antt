pub mod PositionLaws
pub mod StepLaws
pub mod FillLaws
pub mod EntryLaws
pub mod LoopLaws
pub mod Examples
