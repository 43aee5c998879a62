-- The rows hold: each is computed.
pub mod Marked
pub mod Header
pub mod Swing
pub mod Spacings
pub mod Knob
pub mod Hold
pub mod Latch
pub mod Rules
