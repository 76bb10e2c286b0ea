pub mod Heads
pub mod Bodies
