pub mod Arriving
pub mod Doings
pub mod Ending
pub mod Forgetting
pub mod Going
pub mod InRooms
pub mod Judging
pub mod Living
pub mod MetByDoings
pub mod FewInboxes
pub mod Refusing
pub mod Reopening
mod Rows
mod RowsOfEvents
mod RowsRooms
mod Soonest
pub mod Telling
pub mod Through
pub mod Timing
pub mod Tying
pub mod Walking
pub mod FlowInboxing
