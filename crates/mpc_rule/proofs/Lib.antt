pub mod History
pub mod Prospects
pub mod Floors
pub mod Parts
pub mod Lists
pub mod Drafts
pub mod Places
