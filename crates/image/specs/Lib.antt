pub mod Images
pub mod Pieces
pub mod InfoBytes
