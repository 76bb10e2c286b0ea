pub mod Bits
pub mod NextBits
pub mod Walker
pub mod SliceWalker
pub mod Poker
pub mod Texts
