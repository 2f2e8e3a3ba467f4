pub mod Ahead
pub mod Finding
pub mod Known
pub mod LineList
pub mod NextLine
