pub mod Bytes
pub mod RoundTrip
pub mod TwoSteps
pub mod NoValues
