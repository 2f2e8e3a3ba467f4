pub mod Options
pub mod Times
pub mod Opening
pub mod Passing
pub mod ReadingBack
pub mod Along
pub mod FirstPiece
pub mod Looping
