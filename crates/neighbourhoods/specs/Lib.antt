-- What the contracts of this crate cite.
pub mod Into
pub mod Orders
