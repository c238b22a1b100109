pub mod Entries
pub mod Once
