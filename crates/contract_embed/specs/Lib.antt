-- Rotation systems from contractions.
pub mod Chain
pub mod Steps
pub mod Runs
pub mod Tetrahedron
pub mod Entries
pub mod Answer
