pub mod Remembering
pub mod Sharings
pub mod Lawful
pub mod Piles
