pub mod Instances
pub mod Laws
pub mod Ways
