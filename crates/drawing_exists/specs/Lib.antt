-- Drawings on the grid exist.
pub mod Laws
