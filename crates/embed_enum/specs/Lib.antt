-- The list of the plane rotation systems of a block with locks, and places in it.
pub mod Walk
pub mod Laws
pub mod Digits
pub mod Changes
