pub mod Comparing
pub mod Finding
pub mod Turning
pub mod Depth
