pub mod Cutting
pub mod Finding
pub mod Paths
pub mod Ranges
pub mod Reading
