-- Blocks, cut vertices and components of a multigraph.
pub mod Spread
pub mod Numbering
pub mod Blocks
pub mod Finding
pub mod Cuts
