pub mod Places
pub mod TokenLaws
pub mod ItemLaws
