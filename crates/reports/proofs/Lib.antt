pub mod Listing
pub mod Columns
