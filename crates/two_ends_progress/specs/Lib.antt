pub mod Leading
pub mod Opening
pub mod Paired
pub mod Settled
pub mod GettingThrough
pub mod Greatest
