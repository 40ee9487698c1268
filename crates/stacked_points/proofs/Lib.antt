-- The lemmas on contours and stacked points.
pub mod Thirds
pub mod Chains
pub mod Overs
pub mod Corners
pub mod Stacking
pub mod Under
