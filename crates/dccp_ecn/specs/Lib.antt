pub mod Arrivals
pub mod EcnVector
pub mod Ledger
pub mod Nonces
pub mod Ring
pub mod Run
pub mod World
