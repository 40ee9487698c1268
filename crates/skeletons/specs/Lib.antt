-- Skeletons: groups in runs, choices, moves, lists, and rotation systems made of those of the skeletons.
pub mod Items
pub mod Round
pub mod Choices
pub mod Moves
pub mod Lists
pub mod Families
pub mod Laws
