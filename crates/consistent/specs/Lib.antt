pub mod Dating
pub mod Held
pub mod Pass
