pub mod Lines
pub mod Padded
