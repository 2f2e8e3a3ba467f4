pub mod Circle
pub mod Counts
pub mod Near
