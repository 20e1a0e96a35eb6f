pub mod Faults
pub mod Bytes
