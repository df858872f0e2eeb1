pub mod CallResult
pub mod Number
pub mod NumberList
pub mod Range
