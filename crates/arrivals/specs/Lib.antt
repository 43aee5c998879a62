-- What the contracts of this crate cite beside the definitions of `model` and the words of `words`.
pub mod Parts
pub mod Arrivals
