pub mod Answers
pub mod Entrants
pub mod Winners
