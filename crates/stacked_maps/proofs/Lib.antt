-- The lemmas on drawings of maps under contours.
pub mod Lists
pub mod Darts
pub mod Corners
pub mod Cuts
pub mod Heads
pub mod Meetings
pub mod Base
pub mod Stacked
