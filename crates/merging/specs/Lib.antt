pub mod Merging
pub mod Made
