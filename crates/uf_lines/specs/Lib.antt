pub mod LinesIn
pub mod Reading
pub mod Seeking
pub mod Windows
