pub mod ByRuns
pub mod Coding
pub mod Kept
pub mod Near
pub mod Vector
