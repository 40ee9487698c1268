-- Arrangements of the edges around a vertex, why a list is not one, how they are made edge by edge, and the laws; the tables of
-- a vertex, what is noted of a prefix, the least block that is changed, and how two blocks that cross are found.
pub mod Arranged
pub mod Refused
pub mod Options
pub mod Gaps
pub mod Laws
pub mod Tables
pub mod Prefixes
pub mod Crossings
pub mod Changed
pub mod Groups
