pub mod Faults
pub mod Scopes
pub mod Targets
