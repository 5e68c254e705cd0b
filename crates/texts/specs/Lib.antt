pub mod Numbers
pub mod Columns
pub mod Pairings
pub mod Sheets
pub mod Refusals
pub mod Help
