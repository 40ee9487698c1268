-- Faces of a block and of its skeletons, with weights, and what is proved of them.
pub mod Faces
pub mod Tables
pub mod Demands
pub mod Laws
