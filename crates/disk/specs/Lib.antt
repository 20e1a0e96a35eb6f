pub mod Places
pub mod Eight
pub mod Records
