pub mod Assured
pub mod Laws
pub mod RunLaws
