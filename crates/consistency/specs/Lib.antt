pub mod Facts
pub mod Listed
pub mod Naming
pub mod Reflect
