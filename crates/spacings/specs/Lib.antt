-- What the contracts of this crate cite.
pub mod Sources
pub mod Gaps
