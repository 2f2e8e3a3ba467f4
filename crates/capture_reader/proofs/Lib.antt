pub mod Capture
pub mod Opening
pub mod Reading
