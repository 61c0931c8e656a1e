pub mod Again
pub mod Fronts
pub mod Judging
pub mod Lengths
pub mod Stepping
pub mod Strictly
