pub mod Answering
pub mod Bytes
pub mod Finding
pub mod Kept
pub mod Emptied
