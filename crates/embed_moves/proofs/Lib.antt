-- Lemmas on moves that are made.
pub mod Told
pub mod Arranging
pub mod Returns
pub mod Near
