-- Clients: the machine's client is document 01's, what its states hold, and the client driven over any events.
pub mod DrivenIsTalk
pub mod HeldIds
pub mod ClientsFit
pub mod MachineIsClient
pub mod UnreadRest
