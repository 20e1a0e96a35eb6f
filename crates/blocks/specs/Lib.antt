pub mod Runs
pub mod BlockMarks
