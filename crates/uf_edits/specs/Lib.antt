pub mod Edits
pub mod Generated
