pub mod Scaling
pub mod Whole
pub mod Meaning
pub mod Back
pub mod Outcomes
