pub mod Edits
pub mod Files
pub mod Metas
pub mod Moves
pub mod Needs
pub mod Replies
pub mod Rules
