-- Weights of the items of a tree, and the greatest weight of a face.
pub mod Weights
pub mod Reached
pub mod Rests
pub mod Sums
pub mod Passes
pub mod Numbers
