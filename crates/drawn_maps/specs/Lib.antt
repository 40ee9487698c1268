-- Maps of darts that draw a graph.
pub mod Drawn
pub mod Laws
