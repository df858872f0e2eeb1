pub mod Shapes
pub mod Stepping
pub mod JobBytes
pub mod Answers
