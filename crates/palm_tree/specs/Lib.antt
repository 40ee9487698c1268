-- Palm trees of a connected multigraph, and the search that grows them.
pub mod PalmTree
pub mod Growing
