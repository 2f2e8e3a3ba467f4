pub mod Starts
pub mod Extensions
pub mod Logs
pub mod Labels
pub mod EtherTypes
pub mod Wireless
pub mod Links
pub mod Packets
