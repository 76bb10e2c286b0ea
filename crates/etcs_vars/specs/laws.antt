pub mod Sinks
pub mod Spellings
pub mod WordSinks
pub mod BitPages
