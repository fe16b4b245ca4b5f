pub mod Sums
pub mod Lists
pub mod Views
pub mod Bytes
pub mod Stores
pub mod Counting
pub mod Order
pub mod Listings
