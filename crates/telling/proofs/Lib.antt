pub mod Judging
pub mod Lines
