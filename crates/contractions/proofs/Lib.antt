-- The lemmas on triconnected graphs and on contracting their edges.
pub mod Outside
pub mod Counting
pub mod Neighbours
pub mod Tests
pub mod Growth
pub mod ContractibleEdges
pub mod Joined
pub mod PrivateNeighbours
pub mod Contracted
pub mod ContractedTriconnected
pub mod ContractionMade
mod Labelling
mod Tried
mod Naming
pub mod LevelFacts
mod PairsRemoved
mod Examples
