-- Plane rotation systems of triconnected graphs.
pub mod Expansion
pub mod Laws
pub mod Alternation
pub mod Lift
pub mod Circle
pub mod Embedding
pub mod ContractionLaws
pub mod ObstructionLaws
