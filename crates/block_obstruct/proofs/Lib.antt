-- The lemmas on certificates of blocks.
pub mod TowardsNodes
pub mod GroupsOfEdges
pub mod ItemRoutes
pub mod Loops
