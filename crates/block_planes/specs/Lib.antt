-- Blocks that cross, what is plane on a part, and the law.
pub mod Crossing
pub mod Laws
