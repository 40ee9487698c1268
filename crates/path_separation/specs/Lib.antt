-- Some drawn edges of a graph and their plane map, feet of what is undrawn, and the law.
pub mod Drawn
pub mod Feet
pub mod Laws
