-- Laws that the proofs of this crate's functions, and those above it, cite.
pub mod Bringing
pub mod Gathering
pub mod Working
