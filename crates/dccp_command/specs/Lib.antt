pub mod CampaignText
pub mod Forms
