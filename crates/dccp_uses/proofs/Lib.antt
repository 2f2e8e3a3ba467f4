pub mod Delivering
pub mod Ringing
pub mod Soonest
pub mod Accepting
pub mod Dues
pub mod OneInput
pub mod Classic
mod RowsPath
mod RowsReader
pub mod Numbering
pub mod Told
mod Beside
