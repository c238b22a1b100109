pub mod Ends
pub mod Growth
pub mod Joints
pub mod Names
pub mod Parents
pub mod Readings
pub mod Writes
