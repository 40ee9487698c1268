-- The shift method of straight-line drawing.
pub mod Shapes
pub mod Peeled
