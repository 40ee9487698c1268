-- The history of moves.
pub mod History
pub mod Lends
