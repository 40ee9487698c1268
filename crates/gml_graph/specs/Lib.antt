-- The graph of a GML document.
pub mod Named
pub mod Number
pub mod Lists
pub mod Each
pub mod Arranged
pub mod Start
pub mod Hashing
pub mod Answer
pub mod Marked
