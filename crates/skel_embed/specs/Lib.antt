-- Blocks in the plane, and what is first in the list of their plane rotation systems.
pub mod First
pub mod Block
pub mod Fan
pub mod Members
pub mod Outcomes
pub mod Nonplanar
pub mod Planes
pub mod Steps
pub mod Exchanges
pub mod Arranged
pub mod Values
pub mod Taken
pub mod Flat
pub mod Selected
pub mod Drafts
