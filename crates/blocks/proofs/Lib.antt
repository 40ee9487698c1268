-- The lemmas on blocks, cut vertices and components.
mod LowPoints
mod Numbered
mod Spreading
mod Heads
mod Found
mod Meeting
mod Collected
pub mod OneStructure
mod OneBlock
pub mod BlockParts
