pub mod Figures
pub mod Surveys
pub mod Reports
