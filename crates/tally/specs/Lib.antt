pub mod Numbers
pub mod Release
pub mod Tally
