pub mod AfterZeros
mod Examples
pub mod Listings
pub mod RawOptions
pub mod ReadBack
pub mod ReadVectors
pub mod Sizes
pub mod States
mod VectorPlaces
