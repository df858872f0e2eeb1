pub mod Reading
pub mod Writing
pub mod RoundTrip
pub mod WriterRoundTrip
pub mod Encoding
