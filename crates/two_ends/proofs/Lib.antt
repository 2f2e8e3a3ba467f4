pub mod OfFeatures
pub mod OfMarks
pub mod OfWorlds
