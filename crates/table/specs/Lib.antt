pub mod Contents
pub mod Rows
