pub mod Edits
pub mod Grown
