pub mod FeedMachine
pub mod Pieces
pub mod Events
