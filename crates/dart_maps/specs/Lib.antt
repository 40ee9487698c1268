-- Maps of darts: faces, components, Euler's sum, and the changes that keep a map plane.
pub mod Map
pub mod Changes
pub mod Order
pub mod Renumbering
pub mod Flip
pub mod Laws
pub mod Path
