pub mod Alike
pub mod Comparing
pub mod OneTree
pub mod PlanOrder
pub mod Stopped
pub mod Verdict
