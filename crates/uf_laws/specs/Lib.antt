pub mod FirstRows
pub mod Least
pub mod Vectors
pub mod Clashes
