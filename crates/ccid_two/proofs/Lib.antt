pub mod Range
pub mod Mark
