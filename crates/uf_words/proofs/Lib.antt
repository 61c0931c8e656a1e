pub mod Numerals
pub mod Escapes
pub mod Finding
pub mod LinePieces
pub mod Simple
