pub mod Choice
pub mod Retained
pub mod Wanted
pub mod Chosen
