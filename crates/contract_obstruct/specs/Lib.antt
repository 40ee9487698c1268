-- Certificates from contractions.
pub mod Steps
pub mod Arcs
pub mod Crossing
pub mod Triple
pub mod Sectors
pub mod Obstruction
pub mod Lifting
