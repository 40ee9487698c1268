-- Lemmas on moves from one rotation system to another.
pub mod Between
