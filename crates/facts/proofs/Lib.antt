pub mod Adding
pub mod Closing
pub mod Meets
