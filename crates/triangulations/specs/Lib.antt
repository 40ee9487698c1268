-- Triangulations of plane maps.
pub mod Triangulation
pub mod Cutting
pub mod Listed
pub mod Pairs
