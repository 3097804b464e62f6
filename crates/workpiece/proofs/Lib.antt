-- The proofs of the crate, from below.
pub mod Whole
pub mod Lists
pub mod Stores
pub mod Orbits
pub mod Fours
pub mod Faces
pub mod Average
pub mod Split
pub mod Keeping
pub mod Runs
