pub mod Murmur
pub mod Slots
