-- Split components put together to the tree of a block.
pub mod Absent
pub mod Merged
pub mod Merging
pub mod Ranking
pub mod Assembly
pub mod Keys
pub mod Tour
pub mod Laws
pub mod NodeLists
