pub mod Holding
pub mod Views
pub mod Making
pub mod Walking
pub mod Changing
pub mod Cutting
pub mod Removing
pub mod Worked
