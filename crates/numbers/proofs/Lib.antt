pub mod NumberLaws
pub mod HexLaws
pub mod Examples
