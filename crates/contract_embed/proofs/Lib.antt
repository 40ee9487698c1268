-- Lemmas on embedding by contraction.
mod Chain
mod Swaps
mod RunsTold
mod Carried
mod TetrahedronSteps
mod Orders
