pub mod Starting
pub mod TextReads
pub mod ReadsText
