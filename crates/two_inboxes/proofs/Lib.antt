pub mod Alike
pub mod Alone
pub mod Apart
