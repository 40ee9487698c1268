-- Straight-line drawings of the vertices of a plane map that stay, under their contour.
pub mod Drawn
pub mod Laws
