-- The lemmas on the shift method.
pub mod Stretches
pub mod Overlooked
pub mod Rows
pub mod Orders
pub mod Steps
pub mod Placed
pub mod Spread
pub mod Stages
pub mod Writes
pub mod Reached
pub mod Fitting
pub mod Drawings
