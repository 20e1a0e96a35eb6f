pub mod Chain
pub mod Walk
