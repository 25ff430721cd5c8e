pub mod walk
pub mod client
pub mod wire
pub mod Instances
pub mod refused
