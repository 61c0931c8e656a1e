pub mod Edited
pub mod Kept
pub mod Plans
pub mod Removing
