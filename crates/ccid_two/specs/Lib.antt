pub mod Window
pub mod Keeping
pub mod Kinds
pub mod Lawful
pub mod Mark
