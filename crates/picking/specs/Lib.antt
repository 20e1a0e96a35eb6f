pub mod Numbers
pub mod Picker
