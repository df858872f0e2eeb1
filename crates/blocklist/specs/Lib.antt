pub mod BlockList
pub mod Sentences
pub mod Answers
pub mod Parts
