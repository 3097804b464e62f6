pub mod Refusals
pub mod Orders
