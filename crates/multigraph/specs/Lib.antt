-- Multigraphs: their vertices, edges and ends, and marks on these.
pub mod Graph
pub mod Build
pub mod Incidence
pub mod Part
pub mod Darts
pub mod Marks
pub mod Buckets
pub mod Flat
