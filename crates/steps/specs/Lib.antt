pub mod Parts
pub mod Change
pub mod Sound
pub mod Naming
pub mod Cut
pub mod Neighbour
