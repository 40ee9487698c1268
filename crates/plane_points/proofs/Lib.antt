-- The lemmas on points.
pub mod Turns
pub mod Directions
pub mod Rising
pub mod Cyclic
pub mod Falls
pub mod Segments
pub mod Rays
pub mod Laws
