pub mod Once
pub mod Twice
