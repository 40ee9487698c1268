-- Lemmas of the run: answers and chains of steps, what is written, what is read, and what is due.
pub mod Fronts
pub mod Pieces
pub mod Files
pub mod Forms
pub mod Decided
pub mod Texts
pub mod Agreement
pub mod Complete
pub mod Runs
