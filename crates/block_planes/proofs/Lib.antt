-- The lemmas on rotation systems and blocks.
pub mod CommonCycles
pub mod WithoutVertex
pub mod Separated
pub mod Stretch
pub mod Cut
pub mod Together
pub mod Orders
pub mod NoCrossing
pub mod OnParts
pub mod BlockLabels
mod Examples
