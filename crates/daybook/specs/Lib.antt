pub mod Said
pub mod Bytes
