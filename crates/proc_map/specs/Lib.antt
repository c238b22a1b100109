pub mod Cursor
pub mod Entry
pub mod Faults
pub mod Line
pub mod Maps
pub mod Search
