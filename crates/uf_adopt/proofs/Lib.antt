pub mod Fed
pub mod Built
pub mod Denoted
pub mod Going
pub mod Saving
