pub mod Ids
pub mod Paths
