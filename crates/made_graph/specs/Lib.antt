-- The graphs that are made from a number.
pub mod Made
pub mod Laws
