pub mod PieceLaws
pub mod WhyLaws
pub mod Room
pub mod ReplyLaws
pub mod Lines
