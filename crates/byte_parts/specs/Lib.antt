pub mod Cut
pub mod Fields
pub mod Numbers
pub mod Parts
pub mod Places
pub mod Refusals
pub mod Spans
pub mod Words
