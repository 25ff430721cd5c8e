pub mod Answer
pub mod Record
