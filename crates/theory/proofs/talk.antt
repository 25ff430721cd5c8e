-- Conversations: rules for proofs on them, the operations' machine that runs them, request sizes, the unread rest.
pub mod TalkRules
pub mod MachineIsTalk
pub mod RequestSizes
pub mod JobSteps
