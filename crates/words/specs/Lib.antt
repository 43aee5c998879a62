-- What the contracts of this crate and of those on its words cite beside the definitions of `model`.
pub mod Words
