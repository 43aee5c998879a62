-- Laws that the proofs of this crate's functions share.
pub mod MaskLaws
pub mod FireLaws
pub mod TempoLaws
pub mod ArriveLaws
