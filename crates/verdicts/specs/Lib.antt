-- What the contracts of this crate cite. A reader starts at Held.
pub mod Held
pub mod Tables
pub mod Slots
