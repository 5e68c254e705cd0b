pub mod Facts
pub mod Fields
pub mod Refusals
pub mod Sheets
pub mod Amendments
pub mod Outcomes
