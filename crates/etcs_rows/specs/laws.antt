pub mod OneReading
pub mod RestLaws
pub mod Takers
pub mod Walks
