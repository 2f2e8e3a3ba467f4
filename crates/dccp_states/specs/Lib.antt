pub mod Entrance
pub mod Unexpected
pub mod Phases
pub mod Refusals
