-- The lemmas on drawings.
pub mod Pairs
pub mod Ends
pub mod Checked
pub mod Around
pub mod SameEnds
pub mod OfMaps
pub mod TwoVertices
pub mod Shifted
