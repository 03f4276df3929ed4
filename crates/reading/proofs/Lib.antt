pub mod Trips
pub mod Values
pub mod Pairs
