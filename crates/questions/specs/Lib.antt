pub mod Readings
pub mod Storing
pub mod Paths
pub mod Finding
pub mod Spans
pub mod Sums
