pub mod Asked
pub mod CidNames
pub mod Few
pub mod LineWords
pub mod Padded
pub mod SameMeta
pub mod Slashes
