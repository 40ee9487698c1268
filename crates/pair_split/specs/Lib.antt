-- Split components of a block, and its tree.
pub mod Family
pub mod Skeleton
pub mod Kinds
pub mod Edges
pub mod Split
pub mod Tutte
pub mod State
pub mod Minimal
pub mod Bridges
pub mod Search
pub mod Splitting
pub mod Laws
pub mod Writing
