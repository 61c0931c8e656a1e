pub mod Cuts
pub mod Lookings
pub mod Searches
pub mod Steps
pub mod Windows
