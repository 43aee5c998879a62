-- What the contracts of this crate cite.
pub mod Paths
pub mod Rows
