-- The lemmas on depth-first search and its low vertices.
pub mod Writes
pub mod Ancestors
mod Further
mod Frond
mod Child
pub mod Root
mod Left
mod Seen
pub mod Fresh
pub mod Over
mod See
mod Turns
mod Degrees
pub mod Orders
mod Start
mod Rounds
pub mod Grown
mod Taking
pub mod Lows
mod HandedOn
pub mod Telling
