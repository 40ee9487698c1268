-- Moves and locks.
pub mod Laws
