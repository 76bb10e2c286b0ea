pub mod Heads
pub mod Rows
pub mod Bodies
