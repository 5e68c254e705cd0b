pub mod Blanking
pub mod Seating
pub mod Rising
pub mod Roomy
pub mod Rows
pub mod Asked
pub mod Opened
