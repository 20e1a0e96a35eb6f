pub mod Bcd
pub mod Label
