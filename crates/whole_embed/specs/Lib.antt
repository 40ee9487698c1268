-- Components of a graph, rotation systems over their blocks, arrangements at their cut vertices, and the laws.
pub mod Component
pub mod Around
pub mod Whole
pub mod Cuts
pub mod Frames
pub mod Keeping
pub mod Laws
pub mod Advanced
pub mod Walk
pub mod Listed
