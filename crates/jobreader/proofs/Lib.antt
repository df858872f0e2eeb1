pub mod OneNumber
pub mod PreambleNumbers
pub mod Readers
