-- Laws that the proofs of this crate's functions, and those above it, cite.
pub mod Sums
pub mod Columns
pub mod Checks
