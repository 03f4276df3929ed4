pub mod Bytes
pub mod Inserts
pub mod Begins
pub mod Room
pub mod Takes
