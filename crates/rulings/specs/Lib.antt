pub mod Ruling
pub mod Laws
pub mod Own
pub mod Stopped
pub mod Bounds
