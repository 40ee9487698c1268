-- The lemmas on sides of a tree and on plane rotation systems.
pub mod Reach
pub mod EdgesInOrder
pub mod Opened
pub mod Cut
pub mod Items
pub mod Sturdy
pub mod Crossing
pub mod NodeFits
pub mod Contiguous
pub mod SkeletonGraph
pub mod ItemPaths
