pub mod Chains
pub mod PlainTexts
