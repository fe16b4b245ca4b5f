pub mod Doing
pub mod Calling
pub mod Printing
pub mod Day
pub mod Line
pub mod Reached
pub mod Sheet
