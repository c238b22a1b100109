pub mod Firsts
pub mod Used
