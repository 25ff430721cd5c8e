pub mod Calls
pub mod CodeClient
pub mod WalkDriven
pub mod ClientDriven
pub mod CodeWalk
pub mod Refusals
pub mod ClientServed
