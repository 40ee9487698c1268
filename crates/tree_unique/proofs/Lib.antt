-- The lemmas on good 2-separations and on two trees of one block.
pub mod Corners
pub mod Sides
pub mod Toward
pub mod Items
pub mod SkeletonKinds
pub mod Splits
pub mod BondType
pub mod RingType
pub mod Crossed
pub mod Away
pub mod GoodSides
pub mod Rising
pub mod KindOnce
pub mod Matched
pub mod SameItems
pub mod SameTrees
pub mod Tested
mod Examples
