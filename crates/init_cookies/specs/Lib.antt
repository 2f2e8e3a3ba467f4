pub mod Appending
pub mod CookieOptions
pub mod Cookies
pub mod Keyed
pub mod Laws
pub mod Openings
pub mod Routes
