-- Edges that are no bridges, and what is proved.
pub mod Bridges
pub mod Laws
