-- The lemmas on the words.
pub mod Plain
pub mod OtherWords
pub mod ThreeWords
pub mod Ranges
