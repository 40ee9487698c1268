-- The lemmas on graphs without one edge, and on K5 and K3,3.
pub mod Renamed
pub mod OneLess
pub mod Covered
pub mod Without
pub mod Sides
pub mod Minimal
mod ReadOff
