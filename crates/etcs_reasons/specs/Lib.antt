pub mod BitDigits
pub mod Kinds
pub mod Sentences
