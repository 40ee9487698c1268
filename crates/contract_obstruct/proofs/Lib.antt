-- Lemmas on the certificates that contractions give.
pub mod BelowNext
pub mod Orders
pub mod OneSystem
mod LiftedLevel
mod LiftedCases
mod LiftedWalks
mod ArcsTold
mod Alternating
mod Tripled
mod Segments
mod Rotations
mod Obstructed
