-- Points of the plane with whole coordinates.
pub mod Turning
pub mod Segments
pub mod Laws
