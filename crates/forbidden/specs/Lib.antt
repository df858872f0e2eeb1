pub mod MetFrom
pub mod Sets
pub mod Guarantees
pub mod Written
