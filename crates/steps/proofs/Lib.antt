pub mod Cutting
pub mod Changes
pub mod Found
pub mod Naming
pub mod Own
pub mod Calls
pub mod Neighbour
pub mod Start
