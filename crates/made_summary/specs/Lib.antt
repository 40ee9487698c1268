-- The summary of a made graph.
pub mod Text
pub mod Kinds
pub mod Summary
pub mod Laws
