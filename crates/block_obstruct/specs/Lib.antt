-- Certificates carried from a skeleton into its block.
pub mod Towards
pub mod Groups
