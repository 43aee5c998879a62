-- What the contracts of this crate cite beside the definitions of `model`.
pub mod Passing
