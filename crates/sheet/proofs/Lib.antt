pub mod Divisors
pub mod Text
