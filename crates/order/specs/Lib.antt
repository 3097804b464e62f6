pub mod Rule
pub mod Scale
pub mod Refusals
pub mod Orders
pub mod Figures
