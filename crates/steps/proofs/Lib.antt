-- Laws that the proofs of this crate's functions share.
pub mod MarkLaws
pub mod ChoiceLaws
pub mod StepLaws
