pub mod ShapeArray
pub mod Entries
pub mod Transitions
pub mod Loading
pub mod Members
