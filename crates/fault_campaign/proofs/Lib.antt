mod Fields
pub mod Short
pub mod Turns
pub mod Drawing
pub mod Schedules
mod Claiming
