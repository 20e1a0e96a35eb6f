pub mod Freeing
pub mod Laws
