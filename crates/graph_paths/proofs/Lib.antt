-- The lemmas on searches for paths.
pub mod Listed
pub mod Loops
pub mod SearchSteps
mod PartPaths
