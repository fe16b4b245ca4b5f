pub mod Contract
pub mod Table
