-- Lemmas on the weights of faces.
pub mod Terms
pub mod LinkFaces
pub mod FaceBounds
pub mod RestLemmas
pub mod GroupSizes
pub mod InOrder
pub mod UpSteps
pub mod DownSteps
pub mod Weighed
pub mod Steps
pub mod NodeCode
pub mod Numbering
pub mod Totals
