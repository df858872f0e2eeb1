pub mod Words
pub mod Line
