-- Paths drawn into faces.
pub mod Forced
pub mod Fitting
pub mod Search
pub mod Finish
pub mod Insertion
pub mod Settling
pub mod Outcome
