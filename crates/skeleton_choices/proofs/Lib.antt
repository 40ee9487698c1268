-- The lemmas on choices.
pub mod Rounds
pub mod Plane
pub mod Told
pub mod Reached
pub mod Listed
