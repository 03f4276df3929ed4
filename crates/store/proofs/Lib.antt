pub mod Answering
pub mod Cells
pub mod Cutting
pub mod Filling
pub mod Same
