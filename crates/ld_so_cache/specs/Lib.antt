pub mod Cache
pub mod Faults
