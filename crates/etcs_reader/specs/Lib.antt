pub mod Rests
pub mod Readers
pub mod Feeders
pub mod Fields
pub mod Blocks
pub mod laws
