pub mod Standing
pub mod Walks
pub mod Renewal
pub mod Splits
pub mod Asking
pub mod Rooms
