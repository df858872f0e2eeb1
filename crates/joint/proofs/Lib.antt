pub mod Same
pub mod Shapes
pub mod Refusals
pub mod Reading
pub mod Answers
