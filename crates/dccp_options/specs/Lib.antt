pub mod Grammar
pub mod Kinds
pub mod Left
pub mod Listing
pub mod Vectors
pub mod Written
