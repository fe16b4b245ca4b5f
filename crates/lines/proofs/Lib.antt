pub mod TextLaws
pub mod Writing
pub mod LineLaws
pub mod NumeralLaws
pub mod PairLaws
pub mod FieldLaws
pub mod RoundTrip
pub mod Examples
