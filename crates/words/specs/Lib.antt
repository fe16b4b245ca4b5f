pub mod Why
pub mod Pieces
