-- The client driven over a wire of bytes: acceptance condition 3 for it, and wires that are honest.
pub mod DevicesHonest
pub mod EndsAndFinds
pub mod ServedIsMachine
