-- Split components by a palm tree.
pub mod Stack
pub mod Palm
pub mod Walk
pub mod Cuts
pub mod Frames
pub mod Sides
pub mod Noting
pub mod Pass
