pub mod Granting
mod Rows
