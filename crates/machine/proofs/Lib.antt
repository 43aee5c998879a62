-- Laws that the proofs of this crate's functions share; a run of calls cites some of them.
pub mod TableLaws
pub mod CallLaws
pub mod TickLaws
