pub mod ReplyLaws
pub mod SaidLaws
pub mod LineLaws
pub mod Room
