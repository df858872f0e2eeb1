pub mod Whole
pub mod Facts
pub mod Entries
pub mod Copies
pub mod Loading
pub mod Loaded
