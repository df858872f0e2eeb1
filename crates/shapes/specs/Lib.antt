pub mod Without
pub mod Change
pub mod Operands
