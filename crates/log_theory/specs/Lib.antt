pub mod WholeTalk
