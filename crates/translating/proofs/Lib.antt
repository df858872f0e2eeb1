pub mod Naming
pub mod Cutting
pub mod Emitting
pub mod Nesting
pub mod Answering
