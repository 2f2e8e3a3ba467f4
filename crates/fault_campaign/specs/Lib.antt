pub mod Reports
pub mod Draws
pub mod Seeded
pub mod Totals
