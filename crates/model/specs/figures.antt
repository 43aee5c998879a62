-- Rows that pin the definitions: the figures of document 01 and of its change requests, and the rules of the record.
pub mod Marked
pub mod Header
pub mod Swing
pub mod Spacings
pub mod Knob
pub mod Hold
pub mod Latch
pub mod Rules
