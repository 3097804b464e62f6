pub mod Mesh
pub mod Rungs
pub mod Smallest
pub mod Tables
pub mod Count
pub mod Cells
pub mod Examples
pub mod Shapes
