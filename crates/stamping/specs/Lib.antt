pub mod Made
pub mod Dated
pub mod Due
