-- Laws of sets of bits, which other crates cite.
pub mod SetLaws
pub mod WideLaws
