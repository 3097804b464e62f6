pub mod Numbering
mod Turning
mod Lawful
mod Precedence
mod Scans
mod Neighbours
mod EdgeOrder
mod VertexRings
mod Verdicts
pub mod Outcomes
pub mod Spreading
pub mod Exact
mod Causes
mod Holding
