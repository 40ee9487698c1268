-- The lemmas on maps that draw a graph.
pub mod Extended
pub mod Drawn
pub mod Systems
