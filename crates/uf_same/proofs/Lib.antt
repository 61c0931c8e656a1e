pub mod Alike
pub mod Equal
pub mod Linked
pub mod Readings
pub mod Stopping
pub mod OneTree
pub mod PlanOrder
