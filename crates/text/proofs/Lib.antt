pub mod Counting
pub mod Greedy
pub mod Laws
