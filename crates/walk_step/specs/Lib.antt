pub mod Joined
pub mod Steps
