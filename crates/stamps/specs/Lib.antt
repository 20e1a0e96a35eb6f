pub mod Place
pub mod Due
