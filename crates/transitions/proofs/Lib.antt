pub mod Bytes
pub mod Index
pub mod Linked
