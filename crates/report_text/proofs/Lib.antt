pub mod Told
pub mod OneText
