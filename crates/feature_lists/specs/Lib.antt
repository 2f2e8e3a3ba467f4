pub mod Entries
pub mod Features
pub mod Lists
pub mod Preferences
pub mod Wishes
