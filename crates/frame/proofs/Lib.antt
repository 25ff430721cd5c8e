pub mod Assembled
pub mod Writes
