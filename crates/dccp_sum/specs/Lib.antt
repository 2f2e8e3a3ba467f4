pub mod Words
pub mod Coverage
pub mod Checksum
