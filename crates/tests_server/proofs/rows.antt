pub mod RowsFlowInboxes
pub mod RowsFlowless
pub mod RowsLaws
pub mod RowsMeetings
pub mod RowsPeers
pub mod RowsServing
