pub mod Actors
pub mod Lending
