pub mod All
pub mod NotSafe
