pub mod Given
pub mod Settings
pub mod CampaignWords
pub mod Words
pub mod BridgeWords
pub mod Commands
