pub mod Apart
pub mod Languages
pub mod Walk
pub mod Sent
pub mod Prefixes
pub mod Stepping
pub mod Outcomes
pub mod Joins
mod KeptBytes
pub mod LowestBits
pub mod WordSinks
pub mod BitPages
mod Sends
pub mod Words
