-- Lemmas on rotation systems.
pub mod Rising
pub mod Membership
pub mod Arrangements
pub mod Cursor
mod Marks
mod Darts
mod Links
mod Turns
mod Cycles
mod Reorder
mod Ends
pub mod Runs
mod Moves
mod Turning
mod Calls
mod PartEdges
mod Stages
mod Steps
pub mod FirstBad
mod Instances
mod Zipped
