-- Subdivisions of K5 and K3,3.
pub mod Subdivision
pub mod Checking
pub mod Reordering
pub mod Routes
