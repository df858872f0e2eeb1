pub mod Images
pub mod Marks
pub mod Quick
pub mod Answer
