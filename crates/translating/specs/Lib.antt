pub mod Work
pub mod Reading
pub mod Answer
