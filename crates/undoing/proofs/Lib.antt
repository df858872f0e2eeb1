pub mod Cases
pub mod Rowed
pub mod Undone
pub mod Before
pub mod Removed
pub mod None
