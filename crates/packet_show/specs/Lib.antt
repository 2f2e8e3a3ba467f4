pub mod Flows
pub mod Lines
pub mod Names
pub mod Network
pub mod Text
pub mod CaptureText
pub mod Show
