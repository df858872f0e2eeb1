pub mod Pairs
pub mod Checking
pub mod Placing
pub mod Jobs
