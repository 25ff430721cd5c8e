-- The code's client is document 01's: starts, requests and records, any calls, and the client driven over any events.
pub mod CallsAgree
pub mod DrivenIsTalk
pub mod UnreadRest
pub mod JobAnswers
pub mod OperationsAreTalk
pub mod AnswersRead
pub mod RequestBytes
pub mod StartAnswers
pub mod RecordAnswers
