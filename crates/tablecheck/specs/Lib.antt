pub mod Reports
pub mod Surveys
