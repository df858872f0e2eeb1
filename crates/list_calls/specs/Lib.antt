pub mod ListBytes
