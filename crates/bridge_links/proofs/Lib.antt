pub mod Walks
pub mod Lengths
