pub mod Transitions
pub mod Index
