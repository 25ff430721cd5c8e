pub mod Blocks
pub mod Rows
pub mod Sorts
pub mod Ways
