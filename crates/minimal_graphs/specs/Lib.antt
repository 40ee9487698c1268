-- Graphs that are K5 or K3,3, and the laws.
pub mod Whole
pub mod Laws
