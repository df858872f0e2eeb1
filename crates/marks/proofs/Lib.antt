pub mod Walks
pub mod Images
