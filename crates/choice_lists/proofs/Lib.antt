-- The lemmas on lists of choices.
pub mod Places
pub mod Orders
pub mod Branches
pub mod Products
pub mod Numbers
pub mod Locks
pub mod Smaller
pub mod TakenOut
pub mod Arrangements
pub mod NextArrangement
pub mod Choices
pub mod ToldByChoices
pub mod Laws
mod Examples
