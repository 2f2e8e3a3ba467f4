pub mod AckRatio
pub mod Allowance
pub mod GivingUp
pub mod Limits
pub mod RoundTrip
pub mod Waits
