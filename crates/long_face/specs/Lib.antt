-- The longest face of a block.
pub mod Longest
pub mod Wanted
pub mod Laws
pub mod Settled
pub mod Numbers
pub mod Heaviest
pub mod Ready
pub mod Bonds
pub mod Present
pub mod Walk
pub mod Moves
