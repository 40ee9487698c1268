-- The texts of the answers to commands, each in a file of its own.
pub mod Euler
pub mod Gml
pub mod Error
pub mod Change
pub mod List
pub mod Count
pub mod Rank
pub mod Rotation
pub mod Faces
pub mod Moves
pub mod Longest
pub mod Draw
pub mod Whole
