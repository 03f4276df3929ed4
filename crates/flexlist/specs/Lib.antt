-- The FlexList as mathematics, then the edits of a version's list, in reading order.
pub mod Shape
pub mod Nodes
pub mod Sharing
pub mod Building
pub mod Folding
pub mod Values
pub mod Laid
pub mod Shared
pub mod Edits
pub mod Replay
pub mod Chains
