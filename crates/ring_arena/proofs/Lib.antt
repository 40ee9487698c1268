-- Lemmas on rings of nodes.
mod Items
mod Nodes
mod Exchanges
mod Builds
mod Reversal
mod Flipped
