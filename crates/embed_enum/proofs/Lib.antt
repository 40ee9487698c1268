-- Lemmas on places in lists of plane rotation systems.
pub mod Digits
pub mod Ranks
pub mod Counts
pub mod States
pub mod Swaps
pub mod Rises
pub mod Placed
pub mod Bonds
pub mod Nodes
pub mod Walks
pub mod Places
pub mod Single
mod Leads
mod Reaches
