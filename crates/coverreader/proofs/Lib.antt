pub mod Images
pub mod Elements
pub mod ReadImages
pub mod Covers
