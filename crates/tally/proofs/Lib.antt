pub mod Example
pub mod Numbers
pub mod Order
pub mod Pairs
pub mod Release
pub mod Taking
