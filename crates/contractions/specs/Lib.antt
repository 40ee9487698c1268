-- Contracting an edge of a graph.
pub mod Contraction
pub mod Contracted
pub mod Laws
pub mod Labels
pub mod Marks
pub mod Level
