-- What is decided of graphs by drawing paths, and what is found where a graph is not planar.
pub mod Planar
pub mod Found
pub mod Carrying
pub mod Chain
