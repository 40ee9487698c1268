-- What the program is called with, what it decides and what it writes.
pub mod Outcome
pub mod Front
pub mod Reading
pub mod Words
pub mod Writing
pub mod Decision
pub mod Ending
pub mod Status
pub mod Seen
pub mod Run
pub mod Laws
