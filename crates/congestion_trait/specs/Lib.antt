pub mod Flight
pub mod Control
pub mod Kind
pub mod Fixed
pub mod Walk
pub mod Calls
