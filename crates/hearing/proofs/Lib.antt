pub mod Answers
pub mod Hears
pub mod Shows
pub mod Ways
