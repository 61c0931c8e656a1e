pub mod Order
pub mod Places
pub mod Steps
pub mod Names
pub mod Left
pub mod Counted
pub mod Saving
