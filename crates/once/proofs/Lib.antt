pub mod Again
pub mod Begun
pub mod Eight
pub mod Logs
pub mod Picks
pub mod Unharmed
pub mod Word
