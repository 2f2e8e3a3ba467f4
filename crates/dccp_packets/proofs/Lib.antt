pub mod FaultLemmas
pub mod Lengths
pub mod OneSpelling
pub mod Pieces
pub mod ReadBack
pub mod TableLemmas
pub mod Shortened
