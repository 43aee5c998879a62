-- Laws about words that the proofs of more than one crate cite.
pub mod WordLaws
