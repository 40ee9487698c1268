-- What the helpers of tests promise each other.
pub mod Wholes
