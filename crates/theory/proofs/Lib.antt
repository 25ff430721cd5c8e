pub mod walk
pub mod frames
pub mod talk
pub mod client
pub mod flash
pub mod Instances
pub mod EachMember
