-- The table's laws.
pub mod Table
pub mod Tests
