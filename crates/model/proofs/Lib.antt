-- Facts about the definitions that pin them, beside them.
pub mod Steps
pub mod figures
