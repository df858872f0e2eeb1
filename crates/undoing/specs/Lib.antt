pub mod Undone
pub mod Rowed
pub mod Before
