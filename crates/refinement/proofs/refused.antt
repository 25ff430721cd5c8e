-- Refused calls: their answers, and the client after them, for every value of the client.
pub mod Starts
pub mod Records
pub mod Requests
pub mod TurnCases
