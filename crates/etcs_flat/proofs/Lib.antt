pub mod Checks
pub mod Equality
pub mod FlatLaws
pub mod TableLaws
