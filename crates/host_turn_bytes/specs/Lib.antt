pub mod TurnBytes
