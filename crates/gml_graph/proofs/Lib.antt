mod Instances
pub mod Arranged
pub mod Each
pub mod Steps
pub mod Places
pub mod Sound
pub mod Law
pub mod Behind
pub mod Spelling
pub mod SortedEdges
pub mod Starts
pub mod NumberTexts
pub mod MarkedLists
pub mod MarkedForm
pub mod MarkedSteps
pub mod MarkedLaw
mod MarkedInstances
