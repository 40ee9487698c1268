-- Paths in graphs.
pub mod Along
pub mod Listing
pub mod Search
