pub mod Cutting
pub mod Loops
pub mod Tables
pub mod Varints
