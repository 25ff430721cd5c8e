pub mod Instances
pub mod Laws
pub mod Pack
pub mod Shift
pub mod Ways
