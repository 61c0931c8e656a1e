pub mod Commands
pub mod Options
pub mod Shown
pub mod Lines
