-- The lemmas, in the order in which one rests on another.
pub mod Shape
pub mod Cuts
pub mod Merges
pub mod Lists
pub mod Places
pub mod Paths
pub mod Written
pub mod Bounds
pub mod Exact
pub mod Folding
pub mod Values
pub mod PlacedNodes
pub mod Laying
pub mod Sound
pub mod EditBounds
pub mod Chains
