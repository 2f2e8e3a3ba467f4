pub mod Ways
pub mod Inboxed
