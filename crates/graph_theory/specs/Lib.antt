-- Walks, paths, cycles and blocks of a multigraph.
pub mod Path
pub mod Joined
pub mod Connected
pub mod Block
pub mod Side
pub mod Separation
pub mod Triconnected
pub mod Labels
pub mod SearchTree
pub mod Laws
