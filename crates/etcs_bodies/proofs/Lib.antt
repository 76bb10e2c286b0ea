pub mod EntriesLaws
pub mod Made
pub mod Repeats
pub mod Splits
