pub mod Lowest
pub mod Sheet
