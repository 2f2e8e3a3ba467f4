pub mod Beginning
pub mod Verdict
pub mod Whole
pub mod Windows
