-- The tree of a block is the only one.
pub mod Laws
