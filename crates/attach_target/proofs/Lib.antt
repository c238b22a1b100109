pub mod Cached
pub mod Once
