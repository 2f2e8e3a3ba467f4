pub mod AsBox
pub mod Fating
pub mod Fitting
pub mod Handles
pub mod Hearing
pub mod ListenerAsBox
pub mod Served
pub mod Ticking
mod RowsLastSyncs
