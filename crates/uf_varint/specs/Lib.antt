pub mod Fields
pub mod Varint
