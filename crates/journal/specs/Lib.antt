pub mod Format
pub mod Faults
pub mod Reads
pub mod Records
pub mod Loading
pub mod Taking
pub mod Writing
pub mod Written
