pub mod Numbers
pub mod Positions
pub mod Lists
pub mod ByteBits
mod Copies
pub mod Steps
pub mod Views
pub mod Owned
pub mod Inline
pub mod Words
pub mod WordWrites
mod Kept
pub mod Equality
mod NextWords
mod SliceEquality
mod Walked
pub mod DigitTexts
