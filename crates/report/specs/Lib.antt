-- What the functions of this crate are stated by, beside the definitions of `model`.
pub mod Listing
pub mod Longest
