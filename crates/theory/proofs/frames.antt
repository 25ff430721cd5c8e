-- Bytes: frames, their check, ids and hex text read back as they were written, and what is heard in a record.
pub mod IdBits
pub mod CheckParts
pub mod FramesReadBack
pub mod RecordsHeard
pub mod OldRead
pub mod OldCheckRefused
pub mod TextReadsBack
