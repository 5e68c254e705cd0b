pub mod Singles
pub mod Fillings
pub mod Refusing
pub mod Questions
