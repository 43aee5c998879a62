pub mod Assured
pub mod Laws
