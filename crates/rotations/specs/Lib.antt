-- Rotation systems: a cyclic order of the edges at each vertex.
pub mod Rotation
pub mod Entries
pub mod Given
pub mod Rings
pub mod Runs
pub mod PartLists
