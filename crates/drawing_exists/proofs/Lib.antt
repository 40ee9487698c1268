-- Drawings exist.
pub mod Tables
pub mod Triangulated
pub mod Ordered
pub mod Positioned
pub mod Existence
