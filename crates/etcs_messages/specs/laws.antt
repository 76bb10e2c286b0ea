pub mod Parts
pub mod RestLaws
