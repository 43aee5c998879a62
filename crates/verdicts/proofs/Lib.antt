-- Laws that the proofs of this crate's functions, and those above it, cite.
pub mod LevelLaws
pub mod LevelRounds
pub mod NarrowLaws
pub mod LevelSteps
pub mod LimitLaws
pub mod SlotLaws
pub mod TableLaws
pub mod CallLaws
pub mod SameAnswers
