pub mod Number
pub mod Facts
pub mod Job
pub mod Members
pub mod Transitions
