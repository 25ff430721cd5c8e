-- Info, erase, flash and reset: the order of their requests, their number, and the bytes that they carry.
pub mod RequestsBounded
pub mod WrittenBytes
pub mod FramesFit
pub mod FlashOrder
pub mod VerifySucceeds
pub mod HandedOutInOrder
pub mod EraseAddresses
pub mod InfoRule
pub mod WriteOffsets
