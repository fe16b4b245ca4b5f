pub mod Formula
pub mod Meaning
pub mod Grammar
pub mod Machine
