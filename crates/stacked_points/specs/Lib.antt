-- Contours, and points stacked on them.
pub mod Contours
pub mod Laws
