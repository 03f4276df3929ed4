pub mod Digests
pub mod Timed
pub mod Tells
