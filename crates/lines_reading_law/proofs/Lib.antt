pub mod EventLines
pub mod SettingsLines
pub mod Walks
