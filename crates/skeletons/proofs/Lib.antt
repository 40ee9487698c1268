-- The lemmas on skeletons.
pub mod Rows
mod Examples
pub mod NodeItems
pub mod Towards
pub mod KeyRuns
pub mod Systems
pub mod Unique
pub mod Rearranged
pub mod Vertices
pub mod Moved
pub mod Composing
pub mod Places
pub mod Before
pub mod Leading
pub mod Computing
mod ExamplesOfMoves
