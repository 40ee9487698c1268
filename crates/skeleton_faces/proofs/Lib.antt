-- The lemmas on faces of a block and of its skeletons.
pub mod FaceSums
pub mod JoinedFaces
pub mod Falling
pub mod Meeting
pub mod TwoFaces
pub mod BlockFaces
pub mod InSkeletons
pub mod NoLonger
pub mod EachFamily
pub mod Every
pub mod Reached
pub mod Fitted
