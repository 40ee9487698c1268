-- Moves that lead a component from one plane rotation system to another, and why lists are not a rotation system to which they lead.
pub mod Between
pub mod Leading
pub mod Target
pub mod Led
pub mod Laws
