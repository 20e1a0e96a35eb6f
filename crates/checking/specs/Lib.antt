pub mod Disk
