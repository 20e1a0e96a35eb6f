pub mod Entering
pub mod OpenClose
