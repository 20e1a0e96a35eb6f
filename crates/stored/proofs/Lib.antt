pub mod Grown
pub mod Looking
pub mod Reading
pub mod Restamped
pub mod Told
