pub mod OneFile
pub mod OneMet
pub mod Examples
pub mod Useless
