pub mod Among
pub mod Classes
pub mod Ordered
pub mod Placing
mod StandIns
mod TicketNumbers
pub mod Tickets
pub mod Writing
