-- Lemmas on orders of the nodes, on the table of what follows each item, and on the climbs that fill it.
pub mod Ways
pub mod Hanging
pub mod FirstParents
pub mod Rerooting
pub mod UpLists
pub mod Around
pub mod Below
mod Entries
mod Joins
mod Climbs
mod Followed
mod Gathered
pub mod Stepped
