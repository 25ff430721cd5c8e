pub mod Codes
pub mod Exports
pub mod Hosts
