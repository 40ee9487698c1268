-- The items of a tree that are edges of the block, tables of what follows each item, and lists of cyclic orders.
pub mod Homes
pub mod Followers
pub mod EndSums
pub mod Orders
