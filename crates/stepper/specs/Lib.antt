pub mod Table
pub mod Step
pub mod Turns
pub mod InPlace
