pub mod Linked
pub mod MarkedSet
pub mod Nodes
pub mod Replay
pub mod Runs
pub mod Stretches
