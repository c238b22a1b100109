pub mod Asks
pub mod Copies
pub mod Names
