pub mod Capture
pub mod Format
pub mod Gathering
pub mod Records
pub mod State
pub mod Steps
