-- Straight-line drawings.
pub mod Drawing
pub mod Grid
pub mod Laws
pub mod Parallel
pub mod Tests
