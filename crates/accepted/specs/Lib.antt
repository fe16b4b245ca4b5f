pub mod Exchange
pub mod Link
pub mod Events
pub mod Accepted
pub mod Effect
pub mod Agreement
