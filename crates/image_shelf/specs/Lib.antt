pub mod Contents
pub mod Entries
pub mod Images
pub mod Laws
pub mod Objects
