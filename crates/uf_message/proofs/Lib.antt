pub mod Again
pub mod Fronts
pub mod Runs
pub mod Selections
pub mod TimeSteps
