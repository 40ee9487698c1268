-- The words that the program is called with.
pub mod Form
pub mod Positionals
pub mod Laws
