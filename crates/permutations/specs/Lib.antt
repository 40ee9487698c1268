-- Counting, relations and permutations of the numbers below a bound.
pub mod Count
pub mod Relation
pub mod Permutation
pub mod Cyclic
pub mod Members
pub mod Exchange
pub mod Ring
pub mod Runs
pub mod Laws
