pub mod Numbers
pub mod Holder
pub mod Held
pub mod Changes
pub mod Right
pub mod Free
pub mod Sums
