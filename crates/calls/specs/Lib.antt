pub mod Apart
pub mod Arms
