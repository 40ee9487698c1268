-- Lemmas on decisions, and on certificates carried into a graph.
pub mod Decisions
pub mod PartRoutes
pub mod Chain
pub mod OneEdge
mod Listed
