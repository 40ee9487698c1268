-- Canonical orders of triangulations.
pub mod Contours
pub mod Order
pub mod Free
pub mod State
pub mod Laws
