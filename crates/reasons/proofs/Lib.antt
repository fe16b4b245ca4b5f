-- The theorems on the relations named, and the laws that lead to them.
pub mod Numbers
pub mod Deciding
pub mod Listing
pub mod Theorems
