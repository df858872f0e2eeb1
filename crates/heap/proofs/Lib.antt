pub mod Empty
pub mod Codes
pub mod Rows
pub mod Operands
pub mod Update
