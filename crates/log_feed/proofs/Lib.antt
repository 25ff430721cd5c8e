pub mod Cut
pub mod Reach
pub mod Ways
