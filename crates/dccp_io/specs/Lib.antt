pub mod Ahead
pub mod Counts
pub mod Fronts
pub mod Lines
pub mod Memory
