pub mod Allowed
pub mod FirstShared
pub mod Given
mod Numbered
