pub mod Lawful
pub mod Outputs
pub mod Lists
pub mod Beginnings
pub mod Ones
