pub mod Sums
pub mod Sealing
pub mod Zero
