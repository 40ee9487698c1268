-- Laws on the skeletons of a block.
pub mod Laws
