pub mod Carry
pub mod Held
