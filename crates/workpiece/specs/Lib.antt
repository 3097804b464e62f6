-- What the contracts of the crate cite.
pub mod Refusals
pub mod Carriers
pub mod Reckoning
pub mod Law
pub mod Answers
pub mod Outcomes
pub mod Calls
pub mod Opening
pub mod Runs
pub mod Figures
