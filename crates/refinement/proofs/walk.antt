-- The code's walk is the walk machine: its path, marks, table, requests and step, and acceptance condition 3 for it.
pub mod AskedBits
pub mod EndsAndFinds
pub mod LevelMarks
pub mod PathBytes
pub mod StepIsMachine
pub mod TableRows
