pub mod Images
pub mod Reading
