pub mod Bodies
pub mod Messages
pub mod Promises
pub mod laws
