-- The lemmas on made graphs.
mod Examples
mod Subdivided
mod Grown
mod Rounds
mod Added
mod PlanarBlocks
mod Base
pub mod Growth
pub mod Forks
mod Turns
