-- The lemmas on triangulations.
pub mod SimpleMaps
pub mod Turns
pub mod TwoTriangles
pub mod Progress
pub mod Bounded
pub mod Cut
pub mod Filled
pub mod Inserted
pub mod CutLists
pub mod JoinedPairs
pub mod Start
pub mod FillLoop
mod Examples
