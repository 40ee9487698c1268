-- Lemmas on blocks in the plane.
pub mod Lexicographic
pub mod First
mod Fans
mod Mirrors
pub mod RunSteps
pub mod TurnSteps
pub mod ExchangeSteps
pub mod ArrangeSteps
pub mod KeptLists
mod Flat
pub mod BondMoves
mod Selected
mod FirstRows
mod RowTables
mod Drafted
pub mod States
pub mod RunKeys
pub mod Spheres
pub mod KeptKeys
