pub mod LastPieces
pub mod Paths
