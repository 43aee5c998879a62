-- General lemmas: tests, ranges, tables, counting, outcomes and decimal text.
pub mod Tests
pub mod Bools
pub mod Range
pub mod Table
pub mod Front
pub mod Chains
pub mod Pigeonhole
pub mod Outcomes
pub mod Decimal
