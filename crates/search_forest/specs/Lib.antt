-- Depth-first search forests of a multigraph.
pub mod Forest
pub mod Searching
pub mod Low
