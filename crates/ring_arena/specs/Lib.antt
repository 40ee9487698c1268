-- Rings of nodes, and how they are kept.
pub mod Links
pub mod Nodes
