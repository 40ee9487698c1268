-- Faces of a rotation system, and Euler's sum.
pub mod Euler
pub mod Marks
pub mod Search
pub mod Steps
pub mod Trace
pub mod FaceLists
pub mod Maps
pub mod Laws
pub mod Subgraph
