-- The lemmas on decimal digits.
pub mod Digits
