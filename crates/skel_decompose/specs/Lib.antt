-- What follows each item around its ends: tables of it, and how far they are filled; orders of the nodes, and the links to them from their parents.
pub mod Followers
pub mod Orders
pub mod Ways
pub mod Ups
pub mod Survey
