pub mod FaultsSame
pub mod FrameForms
pub mod LineForms
pub mod Lent
pub mod RowsAre
pub mod ValueLists
pub mod ValueTexts
