pub mod Diskette
pub mod Names
pub mod Entries
pub mod Dates
pub mod Consistent
pub mod Notes
pub mod Fcb
pub mod Found
