-- Laws that the proofs of this crate's functions, and those above it, cite.
pub mod IntoLaws
pub mod WalkLaws
pub mod OrderLaws
