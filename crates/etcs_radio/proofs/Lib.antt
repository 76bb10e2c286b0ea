pub mod Numbers
pub mod Equality
pub mod Examples
