-- Why an equation is true or false on a file, and whether a SELECT lists the file.
pub mod Reasons
pub mod Answer
pub mod Run
pub mod Sizes
