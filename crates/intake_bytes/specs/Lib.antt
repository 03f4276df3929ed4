pub mod Rows
pub mod Intake
