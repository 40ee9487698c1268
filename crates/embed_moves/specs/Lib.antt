-- Moves of a block in the plane, made where they may be.
pub mod Made
